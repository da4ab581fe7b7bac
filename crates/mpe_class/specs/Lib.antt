-- Definitions that the contracts cite: the classes of Appendix E.
pub mod Classes
