mod Cuts
mod Puts
mod Sofar
mod Ranks
mod Befores
mod Whole
