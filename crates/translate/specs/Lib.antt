-- Definitions that the contracts cite: the words of a message, lists of calls, and the rules over lists of messages.
pub mod Translate
pub mod Lists
pub mod Rules
