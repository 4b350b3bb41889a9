mod EndLaws
mod ProductLaws
mod SmallCases
