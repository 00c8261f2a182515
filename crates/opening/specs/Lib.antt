-- Opening's answer as that of rules' Host, and the laws that its functions go by.
pub mod Opening
