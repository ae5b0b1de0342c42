mod Recursions
