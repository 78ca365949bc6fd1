mod Knowing
mod Members
mod Noting
mod Rising
mod Swept
mod Tables
