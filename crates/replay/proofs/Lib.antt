mod Tests
mod Ready
