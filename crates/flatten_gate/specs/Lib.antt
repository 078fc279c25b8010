-- What the contracts of `flatten_gate` cite.
pub mod Gates
