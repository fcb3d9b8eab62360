-- What is passed of lines, how long each is, what calls in turn give, and what the call promises.
pub mod Checks
mod EachLine
mod EndToEnd
mod Passed
pub mod Promise
mod RunInTurn
mod ShownInTurn
