mod Owning
