mod PinLaws
mod Passed
