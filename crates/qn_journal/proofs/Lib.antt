mod Costs
mod EntryTexts
mod Printing
mod Rooms
mod Said
mod StatusTexts
mod Wholeness
