-- Document 01's base with P1 and P2 of document 02, and what is prepared for P3 and P14, in its order: what must be believed.
pub mod Limits
pub mod Stops
-- the module file and its rules
pub mod Refusals
pub mod Stages
pub mod File
pub mod Types
pub mod Module
pub mod Kinds
pub mod Flat
pub mod Walk
pub mod Operands
pub mod Records
pub mod Decode
pub mod Typing
pub mod WellTyped
pub mod Decision
pub mod Verdict
-- the machine
pub mod State
pub mod Heap
pub mod Arithmetic
pub mod Step
pub mod Writes
pub mod Footprint
pub mod Run
pub mod StateTest
pub mod Host
-- demand 3: what it claims of a step and of a list of calls; start at Claim
pub mod SafeStep
pub mod Calls
pub mod Claim
-- small cases by computation: nothing below says what the rules are
pub mod Quick
pub mod Table
pub mod CaseStates
pub mod CasesFile
pub mod CasesStep
pub mod CasesTest
pub mod CasesUntyped
pub mod Cases
pub mod CasesMachine
pub mod CasesObjects
