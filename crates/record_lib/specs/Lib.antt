pub mod RecordContracts
