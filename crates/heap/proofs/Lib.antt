pub mod Roots
pub mod Lex
mod Sift
mod Ranking
mod Calls
