-- Definitions that the contracts cite: the byte reader, and what each byte does to it.
pub mod Reader
pub mod Claims
