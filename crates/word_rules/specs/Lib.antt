pub mod Amounts
pub mod Bounds
pub mod Existence
pub mod Magic
pub mod Numbers
pub mod Quotients
pub mod Worked
