pub mod Cigar
