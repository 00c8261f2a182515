-- Demand 3: the theorem (Demand3), and what follows of it for code (ForCode), for the auditor (Audit, Unowned) and for one file
-- (Instance). The order below is that of the proof.
-- what is taken of a module and of fresh region numbers
pub mod Facts
pub mod Fresh
-- the invariant: live regions and their types, and that each change of a state keeps it
pub mod Good
pub mod Preserve
pub mod Spare
-- progress by kind, preservation by effect: they meet in `Safe`
pub mod Safe
pub mod Operations
pub mod Progress
pub mod Step
pub mod Bounds
-- the state test in document 01's words is the invariant; opening passes it
pub mod Bridge
pub mod Opening
-- of a step: free and used objects (document 02, P1), and the pages that it touches
pub mod Objects
pub mod Range
-- runs, then lists of calls
pub mod Sound
pub mod Stray
pub mod Demand3
-- corollaries
pub mod ForCode
pub mod Audit
pub mod Unowned
pub mod Instance
pub mod Worked
pub mod Machines
pub mod Cases
