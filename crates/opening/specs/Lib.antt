-- `Opening` says what stands in the working area once both inputs are loaded, and what their opening comes to.
pub mod Opening
