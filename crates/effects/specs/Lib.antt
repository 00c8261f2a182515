-- What the leaves of a step do.
pub mod Does
pub mod Laws
