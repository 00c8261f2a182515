-- Theorems that rest on a definition which a must-fail edit changes: from here, and not from specs/, they refuse it.
pub mod Cases
