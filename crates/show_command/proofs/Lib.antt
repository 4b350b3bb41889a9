mod SetLineLemmas
