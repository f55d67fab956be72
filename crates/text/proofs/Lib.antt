mod Lining
mod Printing
