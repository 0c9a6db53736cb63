pub mod Bam
pub mod Fields
pub mod Spots
