-- Kinds 23 to 28 and 36 to 39, the choice by the kind, and the first instruction that breaks its rule.
pub mod Plain
pub mod Known
pub mod Same
pub mod Scan
pub mod Untyped
pub mod Props
