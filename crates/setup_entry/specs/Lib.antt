-- Definitions that the contracts cite: the reply, and what an entry leaves of the settings.
pub mod Entry
