mod Listed
mod Sheets
mod Visiting
