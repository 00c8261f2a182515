-- Sets of regions, and the regions that are live by two tables of a module, with their laws.
pub mod Regions
