pub mod TreeRows
mod Imitates
mod Lists
mod Stores
mod Expands
mod Values
mod Blocks
mod ExprTrees
mod Own
mod Boths
mod Scopes
mod Statements
mod Arguments
mod Helpers
mod Theorem
mod WorkedCalls
mod NodeSums
mod LawfulBlocks
mod LawfulTrees
mod LawfulHelpers
mod CastExprs
mod CastStmts
mod CastLawful
mod CastPrograms
pub mod CastOnce
pub mod CastExists
mod WorkedLawful
