-- `Loaded` says what words a description is loaded as, `Numbered` what numbers its alternatives bear, `Nesting` how deep they nest, `At`
-- what code finds where it walks, `Lying` that something stands so, `Loading` what the functions that load ask and promise.
pub mod Loaded
pub mod Numbered
pub mod Nesting
pub mod At
pub mod Lying
pub mod Loading
pub mod Entry
