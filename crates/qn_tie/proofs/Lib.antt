mod Halves
mod Keeping
mod Premises
