mod Choosing
mod Heaviest
mod Numbers
