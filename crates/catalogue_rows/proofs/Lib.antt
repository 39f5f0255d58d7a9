mod Numbers
mod Readings
mod Written
