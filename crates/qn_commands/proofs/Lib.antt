mod CountEnds
mod CountLines
mod Counted
mod Creating
mod ImageEnds
mod Listing
mod ReadTexts
mod Turned
