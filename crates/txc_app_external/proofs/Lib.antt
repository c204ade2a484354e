mod Versions
mod Computing
mod Puts
mod Following
mod Worked
