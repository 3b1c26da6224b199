mod Went
mod Splits
mod Printing
