mod Piles
