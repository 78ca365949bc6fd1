mod Auto
