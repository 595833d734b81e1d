-- `Token` says what number stands at the start of a text, `Call` what a call is, `Finding` where a run of words stands.
pub mod Token
pub mod Call
pub mod Finding
