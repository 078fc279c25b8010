-- What the contracts of `growth` cite.
pub mod Growing
