mod SetCases
mod WindowCases
