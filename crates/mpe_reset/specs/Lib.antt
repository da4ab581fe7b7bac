-- Definitions that the contracts cite: the channels that a change of layout resets.
pub mod Reset
