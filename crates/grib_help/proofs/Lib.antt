mod Helped
mod Told
