mod KnownSpreads
