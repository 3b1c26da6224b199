mod Sums
mod QueueSums
mod Traces
mod Turns
