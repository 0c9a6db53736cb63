pub mod OwnRowLaws
