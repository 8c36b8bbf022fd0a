mod Headers
mod Fields
mod Options
mod Events
mod Rows
mod States
