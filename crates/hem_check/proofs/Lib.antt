pub mod Clauses
mod FirstFound
