pub mod StrideLaws
