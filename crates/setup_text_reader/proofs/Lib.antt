-- Laws that the reader's proofs cite.
mod Capped
mod Taking
mod Parts
mod Digits
mod Words
mod Items
mod Reading
