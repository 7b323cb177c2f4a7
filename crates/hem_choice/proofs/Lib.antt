mod Places
mod Failing
