mod Adding
mod Appended
mod Reading
