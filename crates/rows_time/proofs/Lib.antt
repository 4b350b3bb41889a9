mod WholeCases
