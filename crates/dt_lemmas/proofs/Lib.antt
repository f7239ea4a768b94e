pub mod Lists
pub mod Positions
pub mod Options
pub mod Booleans
pub mod Equalities
pub mod Numbers
pub mod Moduli
pub mod Powers
