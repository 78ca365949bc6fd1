mod Endings
mod PlainLines
