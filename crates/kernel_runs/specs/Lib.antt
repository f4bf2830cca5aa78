pub mod Circuits
pub mod Goes
pub mod Laws
pub mod OneAnswer
pub mod Printed
pub mod Joined
pub mod Refusals
