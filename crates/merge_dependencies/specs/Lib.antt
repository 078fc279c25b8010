-- What the contracts of `merge_dependencies` cite.
pub mod Pushing
